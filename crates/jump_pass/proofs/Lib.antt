pub mod Pass
pub mod Turns
pub mod Below
pub mod Groups
pub mod Rows

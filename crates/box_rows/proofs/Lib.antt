pub mod Copied
pub mod Rows
pub mod Turns
pub mod Whole

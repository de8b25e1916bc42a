pub mod Group
pub mod Steps
pub mod Coding

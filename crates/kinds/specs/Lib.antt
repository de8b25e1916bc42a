pub mod Kind
pub mod Steps
pub mod Coding
pub mod Copying
pub mod Search

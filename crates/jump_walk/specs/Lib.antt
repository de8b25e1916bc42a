pub mod Width
pub mod Held
pub mod Passed
pub mod Steps

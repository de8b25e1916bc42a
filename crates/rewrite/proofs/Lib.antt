pub mod Stretch
pub mod Three

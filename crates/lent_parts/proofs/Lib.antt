pub mod Common
pub mod Turns
pub mod Range
pub mod Seen
pub mod Choice

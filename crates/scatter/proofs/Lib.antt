pub mod Scattered
pub mod Blank
pub mod Turn

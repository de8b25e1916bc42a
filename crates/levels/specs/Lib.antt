pub mod Levels
pub mod LevelZero
pub mod Comparing

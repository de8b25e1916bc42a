pub mod CheckSteps
pub mod Counting
pub mod Whole

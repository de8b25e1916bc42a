pub mod Resumed
pub mod Runs
pub mod Seeking

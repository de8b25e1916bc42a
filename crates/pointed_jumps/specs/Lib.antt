pub mod Pointed
pub mod Search
pub mod Coding

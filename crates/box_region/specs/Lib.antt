pub mod Bounds
pub mod Region

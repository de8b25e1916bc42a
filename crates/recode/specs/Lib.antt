pub mod Recoded
pub mod RunCount

pub mod Body
pub mod Number

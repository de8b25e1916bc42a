pub mod Pairs
pub mod Accepts
pub mod Body
pub mod Walk
pub mod Passing

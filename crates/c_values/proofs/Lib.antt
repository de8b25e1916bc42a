pub mod Coded
pub mod Decoded
pub mod Four
pub mod CoordinateCalls
pub mod InfoCalls
pub mod InfoRows

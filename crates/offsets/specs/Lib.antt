pub mod Falls
pub mod Ends
pub mod Sums
pub mod Over

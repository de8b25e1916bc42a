pub mod Fronts
pub mod Rows
pub mod Ranks
pub mod Later
pub mod Copies

pub mod Handed
pub mod Unchecked

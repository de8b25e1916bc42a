-- The laws of pairs put out.
pub mod Adds
pub mod Further
pub mod Ends

-- The searches.
pub mod TwoLevel
pub mod Searched
-- All that other crates need.
pub mod Laws

pub mod Sums
-- The walks.
pub mod Walked
pub mod JumpsAfter

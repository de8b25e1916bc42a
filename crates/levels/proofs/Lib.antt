-- Entries and sizes.
pub mod Reading
pub mod Shares
pub mod LevelSizes
pub mod Cutting
pub mod Bounded
-- The levels above level 0, checked.
pub mod Above
-- And put out.
pub mod LevelSums
pub mod LevelBytes
pub mod Filling
pub mod Climbing

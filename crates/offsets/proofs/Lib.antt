pub mod Widths
-- Falls counted.
pub mod Falling
-- A group by its ends.
pub mod OneGroup
-- Entries searched.
pub mod Searching
-- Sums with a base.
pub mod Summing
-- Offsets put out.
pub mod Putting

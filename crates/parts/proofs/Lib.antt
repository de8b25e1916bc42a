-- Walks.
pub mod Steps
pub mod Entries
pub mod Batches
pub mod Along
pub mod Fills
pub mod RunWalk
pub mod Sought
-- Encoders.
pub mod Taking
pub mod Sounds
pub mod Taken
pub mod Outright
pub mod Alike
pub mod Added
pub mod Grown
pub mod Carried
-- The parts, and the facts of an accepted file.
pub mod Last
pub mod Places
pub mod Seen
pub mod Sizing

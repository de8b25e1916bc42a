pub mod OneEntry
pub mod RunEnds

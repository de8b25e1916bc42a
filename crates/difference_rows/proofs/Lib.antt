-- A batch read.
pub mod Filled
pub mod Follows
-- And put out.
pub mod PutTurns

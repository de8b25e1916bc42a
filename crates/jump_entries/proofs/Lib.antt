-- One position.
pub mod Adds
pub mod Taken
-- A batch of positions.
pub mod Batch
pub mod PutBatch

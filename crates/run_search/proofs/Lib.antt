-- The laws of what stands before a run.
pub mod Before

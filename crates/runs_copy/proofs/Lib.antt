-- The laws of whole runs.
pub mod Whole
pub mod Copying
pub mod FromRun

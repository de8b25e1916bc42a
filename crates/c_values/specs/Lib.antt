pub mod Code
pub mod Extents
pub mod Info

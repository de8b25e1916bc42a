pub mod RunCounts
pub mod RunEdits
pub mod RunSizes
pub mod Recoding

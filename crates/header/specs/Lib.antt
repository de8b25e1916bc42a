pub mod Fields
pub mod CellCount

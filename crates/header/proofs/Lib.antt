pub mod Fields
pub mod CellCount
pub mod RowOrder
pub mod CoordinateAnswers

pub mod Header
pub mod Out
pub mod Measuring
pub mod Pieces
pub mod WholeFile

pub mod Written
pub mod Edits
pub mod Copied

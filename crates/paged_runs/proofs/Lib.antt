-- Check and searches.
pub mod Held
pub mod Left
pub mod PartsAgain
pub mod Answering
pub mod Finding
-- The encoder.
pub mod Codes
-- The upper levels, made of level 0.
pub mod FirstPart

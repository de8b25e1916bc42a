-- The check.
pub mod Held
pub mod Parts
-- The searches.
pub mod Found
-- What the crate says of itself.
pub mod Laws

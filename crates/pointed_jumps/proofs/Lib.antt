pub mod Held
pub mod Zeros
-- The check.
pub mod Pointed
pub mod Come
pub mod Parts
-- The searches.
pub mod Ranks
pub mod Found
-- The encoder.
pub mod Between
pub mod Stands
pub mod Pointing
pub mod Made
-- What the crate says of itself.
pub mod Laws

pub mod Allowed
-- The check.
pub mod GoodPairs
pub mod Along
-- The cursor.
pub mod Walk
pub mod Pages

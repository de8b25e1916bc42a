-- The search from a place on.
pub mod Ahead
pub mod Passed
pub mod Found
-- The cursor.
pub mod Walks
pub mod Way

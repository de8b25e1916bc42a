pub mod Counted
pub mod Joined
pub mod Regions
pub mod Between

pub mod Falls
pub mod Copied
pub mod Far

pub mod Falls
pub mod Copied
pub mod Ends

pub mod Steps
pub mod Later

pub mod Climb
pub mod Held
pub mod Laws
pub mod Ahead

-- The laws of kind 1.
pub mod Lookup
pub mod Laws

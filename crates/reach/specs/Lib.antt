pub mod Reached
pub mod Laws

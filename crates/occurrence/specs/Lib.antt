pub mod Occurrence
pub mod Search
pub mod Parts
pub mod Laws

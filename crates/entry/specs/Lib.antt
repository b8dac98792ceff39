pub mod Blocks
pub mod Finding

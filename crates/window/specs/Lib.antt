pub mod Windows
pub mod Bits

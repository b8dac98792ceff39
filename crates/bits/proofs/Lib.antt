pub mod Bits
pub mod LowestLaws

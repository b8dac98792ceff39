pub mod Reaching
pub mod EndLaws

pub mod Index
pub mod RunSized
pub mod Sizes

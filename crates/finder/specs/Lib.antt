pub mod Words
pub mod Meaning
pub mod Joined
pub mod Samples

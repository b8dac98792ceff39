pub mod Strings
pub mod Suffixes
pub mod Back
pub mod Meaning
pub mod Children
pub mod Entering
pub mod Laws

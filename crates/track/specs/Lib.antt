pub mod Tracking
pub mod Telling
pub mod Stepping

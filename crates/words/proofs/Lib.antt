pub mod Placing
pub mod Runs

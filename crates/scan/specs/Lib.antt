pub mod Announced
pub mod History
pub mod Rules
pub mod Calls
pub mod Taking
pub mod Runs
pub mod Promise

pub mod Rows
pub mod Seats
pub mod Reading

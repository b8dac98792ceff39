pub mod Refusals
pub mod Records
pub mod Written
pub mod Lists
pub mod Readings
pub mod Spacings
pub mod Judging
pub mod Grammar

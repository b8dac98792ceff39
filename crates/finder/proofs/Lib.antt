pub mod HalfRead
pub mod Masks
pub mod Joining
pub mod Hearing

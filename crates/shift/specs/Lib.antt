pub mod Table
pub mod Building
pub mod Register
pub mod Halves
pub mod Comparing
pub mod Mounting
pub mod Samples

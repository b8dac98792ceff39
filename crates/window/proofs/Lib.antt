pub mod Bits
pub mod Marking
pub mod Asking
pub mod Ends

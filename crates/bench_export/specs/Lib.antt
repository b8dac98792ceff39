pub mod Checksums
pub mod Links
pub mod Scans
pub mod Shifts

pub mod ChecksumLaws
pub mod Scanned

pub mod Nodes
pub mod Tables
pub mod Laws
pub mod Samples

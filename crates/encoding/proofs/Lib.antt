-- The laws of this crate that belong to no one function.
pub mod Merging
pub mod Coding
pub mod Entries
pub mod Instances
pub mod Filling
pub mod Looking
pub mod Writing
pub mod Answering
pub mod Order

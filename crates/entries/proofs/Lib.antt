-- The laws of this crate that belong to no one function.
pub mod Scanning
pub mod Accepting
pub mod Within
pub mod Faults
pub mod Scans

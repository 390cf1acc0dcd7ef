-- The laws of this crate that belong to no one function.
pub mod Sizes
pub mod Validating
pub mod Acceptance
pub mod Faults
pub mod Heads

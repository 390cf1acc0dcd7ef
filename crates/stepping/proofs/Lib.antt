-- The laws of this crate that belong to no one function.
pub mod Verdicts
pub mod Named
pub mod Places
pub mod Writes
pub mod Agreement
pub mod Surveying
pub mod Refusing
pub mod Advancing
pub mod Answers
pub mod Following
pub mod Wide

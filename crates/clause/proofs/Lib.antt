-- The laws of this crate that belong to no one function.
pub mod Blocks
pub mod Signs12
pub mod Clashing
pub mod Resolving

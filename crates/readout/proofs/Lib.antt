-- The laws of this crate that belong to no one function.
mod Answers
pub mod Order
pub mod Empty

-- The laws behind the printed text.
pub mod Putting
mod Digits

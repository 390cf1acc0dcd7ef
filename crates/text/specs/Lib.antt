-- The printed text, as bytes.
pub mod Text
pub mod Putting

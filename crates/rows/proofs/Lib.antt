-- The laws of this crate that belong to no one function.
pub mod FormRows
pub mod Flat
pub mod RowWords
pub mod Searching

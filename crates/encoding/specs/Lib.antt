-- The encoding of an instance in a lent table.
pub mod Calls
pub mod Coding
pub mod Order

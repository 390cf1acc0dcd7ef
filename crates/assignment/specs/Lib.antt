-- The rebuilt assignment of a table, written as bytes.
pub mod Calls
pub mod Order
pub mod Chosen
pub mod Witness

-- The laws of a season's bytes.
pub mod Columns
mod Answers
pub mod Feeding
pub mod Meaning
pub mod Telling
pub mod Wanting
pub mod Lasting
pub mod Witness
pub mod Empty

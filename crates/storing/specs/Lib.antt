-- Rows written to a lent table: a clause added to those that are there.
pub mod Adding

-- Clauses as packed signs.
pub mod Packed

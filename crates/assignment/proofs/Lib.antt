-- What the proofs rest on: clauses with nothing in common, the lowest value by trailing zeros and its bit, the variables that a table lacks, and the laws of each loop's turns.
pub mod Disjoint
pub mod Lowest
pub mod Bit
pub mod Narrowing
pub mod Lacking
pub mod Choosing
pub mod Tables
pub mod Hunting
pub mod Forbidding
pub mod Planning
pub mod Order
mod Witness

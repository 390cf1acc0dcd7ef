-- Weighted signed clauses, in document 01's order: signs, clauses, rows, costs, the encoding, the resolution rule, the rebuilt assignment.
pub mod Sign
pub mod Clause
pub mod Row
pub mod Entry
pub mod Rule
pub mod Resolve
pub mod Unsettled
pub mod Rebuild
pub mod Bound
pub mod Empty
pub mod Theorems
pub mod Widening

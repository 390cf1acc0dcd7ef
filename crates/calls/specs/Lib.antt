-- Demand 3: lists of calls on a table, and what holds after every one of them.
pub mod Calls
pub mod LastFixed
pub mod Forbids
pub mod LastYear
pub mod Demand
pub mod Derivation
pub mod Driver
pub mod Slices
pub mod Asks
pub mod WordCases
pub mod Witness
pub mod Empty

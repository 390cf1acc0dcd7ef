-- What the step call's and the run's proofs rest on: single steps on a valid table, what a run keeps from turn to turn; and that both leave valid
-- tables.
pub mod Stepped
pub mod Own
pub mod Single
pub mod Going
pub mod Climbing
pub mod Keeping
pub mod Order
pub mod Witness

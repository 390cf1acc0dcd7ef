-- What the proofs rest on: which fixed values fit, the laws of each loop's turns, and the call's returns.
pub mod Fitting
pub mod CarryTurns
pub mod Summing
pub mod Placing
pub mod Completing
pub mod Order
pub mod NothingFixed
mod Witness

-- The laws of what is written for a sheet.
mod Writing
mod Planned
pub mod Accepted
mod TwoValues
pub mod Witness

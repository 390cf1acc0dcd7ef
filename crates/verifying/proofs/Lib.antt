-- The laws of a verdict and its text.
pub mod Verdicts
mod Stages
mod Counted
pub mod Meaning
pub mod Numbers
pub mod Witness

-- One step on rows and on a table in lent words.
pub mod Step
pub mod Advance
pub mod Turns

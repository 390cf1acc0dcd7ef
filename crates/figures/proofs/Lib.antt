-- The laws of counted sheets, of their figures and of their line.
pub mod Counting
pub mod Tallies
pub mod Largest
pub mod Spaces

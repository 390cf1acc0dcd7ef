-- A season's figures and their line.
pub mod Counting
pub mod Tallies
pub mod Theorems
pub mod Line

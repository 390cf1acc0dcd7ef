-- A sheet planned: the value that it comes to.
pub mod Values
pub mod Solving
pub mod Theorems
pub mod Empty

-- Tables from last year: the two conversions, and what these keep.
pub mod Calls
pub mod Theorems
pub mod Order
pub mod Witness

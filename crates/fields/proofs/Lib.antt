-- The laws of this crate that belong to no one function.
pub mod Fronts
pub mod Sizes
pub mod Assigning
pub mod Padding
pub mod Closing
pub mod Costs
pub mod Forbidden
pub mod Faults
pub mod Order

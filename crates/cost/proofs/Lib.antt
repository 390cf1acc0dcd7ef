-- The laws of this crate that belong to no one function.
pub mod Costing
pub mod Pricing
pub mod Order
pub mod Empty

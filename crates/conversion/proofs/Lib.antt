-- The laws of this crate that belong to no one function.
pub mod Theorems
pub mod Order
pub mod Forms
pub mod Converting
pub mod Witness
pub mod Starting
pub mod Weights
pub mod RowsRewritten

-- The laws of this crate that belong to no one function.
pub mod Coordinates
pub mod Counting
pub mod Located
pub mod OneStation
pub mod Sheets
pub mod Acceptance
pub mod Fitting
pub mod Walking
pub mod Faults
pub mod Placed

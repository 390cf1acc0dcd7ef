-- The laws of this crate that belong to no one function.
pub mod GoodLegs
pub mod Reading
mod Writing
pub mod Making
pub mod MakeTests
pub mod Order
pub mod Empty

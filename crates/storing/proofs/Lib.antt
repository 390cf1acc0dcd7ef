-- The laws of this crate that belong to no one function.
pub mod FormTables
pub mod Laying
pub mod Changes
pub mod Stores
pub mod Closing
pub mod Adding

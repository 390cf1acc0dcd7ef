-- The laws of a sheet's value.
pub mod Best
pub mod Meaning
pub mod Numbers
pub mod Empty
pub mod Claimed

-- The completion of an assignment whose last values are fixed, written as bytes.
pub mod Calls
pub mod Order
pub mod NothingFixed
pub mod Witness
pub mod Fixed
pub mod Limited

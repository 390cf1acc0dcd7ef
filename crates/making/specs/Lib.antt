-- The instance made from a sheet.
pub mod Made
pub mod Calls
pub mod Promises
pub mod Order
pub mod Empty

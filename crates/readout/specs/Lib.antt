-- The readout: metres from the vehicle to the next sample.
pub mod Calls
pub mod Order
pub mod Empty

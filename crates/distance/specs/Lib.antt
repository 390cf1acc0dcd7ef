-- Whole metres.
pub mod Metres

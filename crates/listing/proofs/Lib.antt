-- The laws of the lines.
pub mod Plans
mod Metres
mod Lines

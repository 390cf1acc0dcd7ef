-- The laws of bytes that are taken.
pub mod Phases
pub mod Turns
pub mod Pieces

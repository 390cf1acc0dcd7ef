-- A season's bytes cut into sheets.
pub mod Cutting
pub mod Pieces

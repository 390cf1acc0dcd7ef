-- What a reader has still to read.
pub mod Left

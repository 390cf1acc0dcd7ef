-- The laws of this crate that belong to no one function.
pub mod Reading
pub mod Inverse
pub mod Said
pub mod Others
pub mod Packing
pub mod Coordinates

-- Bytes as little-endian words.
pub mod Words
pub mod Theorems

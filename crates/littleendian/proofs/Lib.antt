-- The laws of bytes that are read and of words that are written.
pub mod Words
pub mod Writing

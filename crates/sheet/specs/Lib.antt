-- Sheets: which words are accepted, which of 1 to 5 the others get, and the positions of their values.
pub mod Sheet
pub mod Phases
pub mod Accepted
pub mod Calls
pub mod Places
pub mod Reads

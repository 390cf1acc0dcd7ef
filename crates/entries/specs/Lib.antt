-- The entries' words: which are accepted, which of 3 to 5 the others get, and what their scan answers.
pub mod Entries
pub mod Scans

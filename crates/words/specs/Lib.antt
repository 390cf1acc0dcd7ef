-- The words of document 01 and of wish 4 of document 02: their layout and their meaning.
pub mod Layout
pub mod Meaning

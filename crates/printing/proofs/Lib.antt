-- The text's laws.
pub mod Meaning
pub mod Empty
pub mod Plans
pub mod Texts

-- What an answer slice holds.
pub mod Noted

-- The laws of a certificate's words.
pub mod Bindings
pub mod Claims
pub mod Reading

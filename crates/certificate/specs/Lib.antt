-- The words of a certificate, and what words that may be one say.
pub mod Certificate
pub mod Claim
pub mod Theorems

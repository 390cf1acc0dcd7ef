-- Replay of a derivation, and the claim that it is to support.
pub mod Answer
pub mod Replay
pub mod Twelve
pub mod Calls
pub mod Theorems

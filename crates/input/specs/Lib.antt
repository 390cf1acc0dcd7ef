-- Instances: which words are accepted, which of 1 to 5 the others get, and what accepted words mean, in document 01's order.
pub mod Instance
pub mod Accepted
pub mod Calls
pub mod Heads

-- What the checker accepts and what its table keeps, and the laws that its functions rest on.
pub mod Instances
pub mod Encoded
pub mod Kept
pub mod Replaying
pub mod Claims
pub mod Numbers
pub mod Naming
pub mod Own
pub mod Going
pub mod Judging
pub mod Checking

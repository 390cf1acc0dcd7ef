-- What the exported calls return and write to the caller's slices.
pub mod Exports

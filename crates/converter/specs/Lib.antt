-- What the converter answers to the bytes of a request, and what its answer means.
pub mod Converted
pub mod Theorems
pub mod Witness

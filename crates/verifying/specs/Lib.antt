-- What is printed of a certificate and a sheet, and what it means.
pub mod Verified
pub mod Theorems
pub mod Witness

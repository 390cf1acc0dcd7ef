-- What is written for a sheet that is planned with a certificate, and that it is accepted.
pub mod Certified
pub mod Certifiable
pub mod Theorems
pub mod Witness

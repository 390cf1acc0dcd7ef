-- The text of a planned sheet.
pub mod Printed
pub mod Listable
pub mod Theorems
pub mod Empty

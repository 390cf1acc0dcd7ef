-- A season's sheets planned one after the other: the figures of a file, and of its bytes as they come.
pub mod Season
pub mod Feeding
pub mod Theorems
pub mod Witness
pub mod Empty

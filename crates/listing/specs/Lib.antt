-- The lines of an assignment: each variable with its value and the metres to it.
pub mod Listed
pub mod Plans

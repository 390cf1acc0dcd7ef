-- How far a call moves a reader on.
pub mod Within

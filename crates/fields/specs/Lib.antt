-- What a field is, whichever format says it: its limits, the words of its sizes and entries, assignments, and twelve variables in place of n.
pub mod Limits
pub mod Front
pub mod Entries
pub mod Forbidden
pub mod Assignment
pub mod Padding
pub mod Numbers
pub mod Answers
pub mod Order

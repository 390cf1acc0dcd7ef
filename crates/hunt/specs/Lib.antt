-- The hunt for the next pair, over the rows of one bucket at a time.
pub mod Hunt

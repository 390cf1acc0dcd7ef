-- Rows as they stand in a lent table: the words of one behind those of another, and zeros behind the last.
pub mod Form
pub mod Raw

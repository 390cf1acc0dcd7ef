-- What the hunt's proofs rest on: the rows of a table one by one, one sign of a row, the search taken up from a later place, and the laws of each loop's turns.
pub mod TableRows
pub mod OneSign
pub mod Hunting
pub mod Seeking
pub mod Pairing
pub mod Climbing

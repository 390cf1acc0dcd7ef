-- The conclusions of a step, in a buffer of packed clauses.
pub mod Buffer

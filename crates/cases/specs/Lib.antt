-- Document 01's small fields P1 to P8: the joint table, and what is claimed of it.
pub mod Cases

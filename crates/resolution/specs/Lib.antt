-- The step call and the run, on a table in lent words: definitions, the paper's numbers of their answers, and what they keep.
pub mod Answers
pub mod Outcomes
pub mod Step
pub mod Run
pub mod Calls
pub mod Twelve
pub mod Numbers
pub mod Theorems
pub mod Order
pub mod Climbing
pub mod Witness

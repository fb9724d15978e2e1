-- Laws that the proofs of pass two's functions cite.
pub mod Answers
pub mod Branches
pub mod Expressions
pub mod Rows

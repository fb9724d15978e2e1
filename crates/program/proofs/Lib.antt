-- The laws that the functions' proofs cite.
pub mod Expressions
pub mod Bodies
pub mod Rows

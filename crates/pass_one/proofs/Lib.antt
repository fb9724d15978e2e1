-- The laws that the functions' proofs cite.
pub mod Entries
pub mod PartScopes
pub mod Expressions
pub mod Functions

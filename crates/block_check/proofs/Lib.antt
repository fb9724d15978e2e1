-- The laws that the functions' proofs cite.
pub mod Checks
pub mod Fields

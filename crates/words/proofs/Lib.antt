-- The law that the functions' proofs cite.
pub mod Bytes

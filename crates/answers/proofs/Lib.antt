-- The laws that the functions' proofs cite.
pub mod Slots
pub mod Laws
pub mod Calls

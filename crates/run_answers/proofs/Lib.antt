-- The laws that the functions' proofs cite.
pub mod Extended
pub mod Laws
pub mod RunCall

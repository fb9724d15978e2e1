-- Laws that the proofs of the functions on pending trees cite, and those of their callers.
pub mod Laws

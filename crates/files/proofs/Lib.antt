-- Laws that the proofs of the file reader and writer cite.
pub mod Laws

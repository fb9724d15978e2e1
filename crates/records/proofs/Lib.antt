-- Laws that the proofs of the functions over node records cite.
pub mod Laws

-- Laws that the proofs of the tree reader's functions cite.
pub mod Marks
pub mod Laws

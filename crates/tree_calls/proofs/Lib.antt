-- Proofs about the tree reader's calls.
pub mod Laws

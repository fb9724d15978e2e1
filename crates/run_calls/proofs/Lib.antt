-- Proofs about the runner's call.
pub mod Laws

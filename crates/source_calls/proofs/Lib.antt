-- Proofs about the source run's call.
pub mod Laws

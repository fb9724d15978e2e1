-- Proofs about the stream run's call.
pub mod Laws

-- What contracts and proofs need, and nobody need believe.
pub mod Sums

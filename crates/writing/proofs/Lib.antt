-- The laws that the functions' proofs cite. `Copied` is for callers that copy one by one.
pub mod Placed
pub mod Copied

-- Laws that the functions' proofs cite: of the block rows, and of taking flat records out of
-- blocks. `Taken` is for callers.
pub mod Rows
pub mod Gathered
pub mod Taken

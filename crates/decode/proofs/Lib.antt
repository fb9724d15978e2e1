-- The laws that the functions' proofs cite.
pub mod Leaves
pub mod Locations
pub mod Rows
pub mod Expressions
pub mod All
pub mod Calls

-- How code is emitted, and what the functions that emit it answer.
pub mod Inner

-- Laws for the functions that report the answer of a source run.
pub mod Laws

-- Laws for the proofs of functions that walk a program's records.
pub mod Walks
pub mod Lists
pub mod Functions
pub mod Here

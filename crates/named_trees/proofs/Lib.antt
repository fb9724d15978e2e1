-- Laws for the function that finds a named tree.
pub mod Offsets

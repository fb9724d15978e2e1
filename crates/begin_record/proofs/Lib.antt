-- Laws for the functions by which a record begins.
pub mod Begins

-- Laws for the functions that say the first half of a row.
pub mod Halves

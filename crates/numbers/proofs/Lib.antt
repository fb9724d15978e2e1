-- The laws of a word's sign, and of the sum of two words.
pub mod Sums

-- What an operation does to the machine's numbers and the lent words.
pub mod Inner

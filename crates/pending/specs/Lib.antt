-- What the functions on pending trees answer.
pub mod Inner

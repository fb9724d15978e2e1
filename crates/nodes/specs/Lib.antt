-- What the functions over nodes answer.
pub mod Inner

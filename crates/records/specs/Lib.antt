-- What the functions over node records answer.
pub mod Inner

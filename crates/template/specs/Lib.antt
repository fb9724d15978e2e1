-- What the functions over templates answer.
pub mod Inner

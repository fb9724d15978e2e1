-- What the functions of pass one answer.
pub mod Inner

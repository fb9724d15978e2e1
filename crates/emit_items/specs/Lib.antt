-- What the functions that emit items answer.
pub mod Inner

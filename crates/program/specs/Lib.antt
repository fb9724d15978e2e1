-- What the functions of the row "prefix form" answer.
pub mod Inner

-- What the functions of the row "functions" answer.
pub mod Inner

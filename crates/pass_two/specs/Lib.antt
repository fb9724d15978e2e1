-- What the functions of pass two answer.
pub mod Inner

-- How a walk reports the outcome of an evaluation.
pub mod Inner

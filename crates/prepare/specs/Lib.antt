-- What comes before a run.
pub mod Inner

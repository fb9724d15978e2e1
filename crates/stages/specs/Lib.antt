-- What the stages of a source run stand for.
pub mod Inner

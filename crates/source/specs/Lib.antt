-- What a source run answers.
pub mod Inner

-- The walk of the source run, as a function.
pub mod Inner

-- The next stage after a record begins.
pub mod Inner

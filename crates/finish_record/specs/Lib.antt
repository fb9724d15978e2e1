-- The next stage after a record is finished.
pub mod Inner

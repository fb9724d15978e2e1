-- The next stage after a call opens.
pub mod Inner

-- The bytes of a result, counted and written.
pub mod Inner

-- Items written into a slice.
pub mod Inner

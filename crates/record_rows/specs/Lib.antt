-- The first half of a record's row.
pub mod Inner

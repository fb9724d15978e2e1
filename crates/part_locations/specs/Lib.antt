-- Where the parts of a record stand.
pub mod Inner

-- What the tree reader's functions answer.
pub mod Inner

-- What the tree reader called from C or Rust answers.
pub mod TreeCall

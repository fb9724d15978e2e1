-- What a stream run called from C or Rust answers.
pub mod RunSlots
pub mod RunCall
pub mod Inner

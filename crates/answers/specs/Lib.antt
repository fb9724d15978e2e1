-- What a call from C or Rust answers.
pub mod Slots
pub mod Answer
pub mod Fills
pub mod Inner

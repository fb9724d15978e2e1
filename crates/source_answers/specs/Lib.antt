-- What a source run called from C or Rust answers.
pub mod SourceSlots
pub mod SourceCall
pub mod Inner

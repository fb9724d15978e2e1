-- The numbers of opcodes, and an instruction's fields.
pub mod Inner

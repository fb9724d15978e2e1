-- What functions of other crates promise each other and their callers in Rattle, and what their
-- proofs share. No promise to users rests on it: nobody need believe it.
pub mod CodeColumn
pub mod Fields
pub mod Trees
pub mod Buffers
pub mod Blocks
pub mod Limits
pub mod Expressions

-- What the functions that walk a program's records share: pass one, pass two, the translator and
-- the decoder.
pub mod Inner

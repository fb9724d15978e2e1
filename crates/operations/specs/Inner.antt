-- What functions of other crates promise each other and their callers in Rattle. No promise to
-- users rests on it: nobody need believe it.
pub mod Effects
pub mod Checked

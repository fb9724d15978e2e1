-- What the functions of this crate promise each other and their callers in Rattle. No promise to
-- users rests on it: nobody need believe it.
pub mod Numbers
pub mod Answered
pub mod FilledBuffer
pub mod Verdicts

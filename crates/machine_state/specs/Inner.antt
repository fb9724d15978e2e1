-- What the functions of this crate promise their callers in Rattle. Nobody need believe it.
pub mod States
pub mod Answers
pub mod InNumbers

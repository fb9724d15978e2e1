-- What a run of a program file called from C or Rust answers.
pub mod ProgramCall

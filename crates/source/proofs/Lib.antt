-- Laws for the functions of the source run.
pub mod Runs
pub mod Calls

-- Laws of stages and their turns.
pub mod Stages
pub mod InNumbers

-- The steps come to the evaluation's outcome.
pub mod Steps
pub mod Rows
pub mod Trees
pub mod Words
pub mod Moves
pub mod Simulation
pub mod Whole
pub mod Cases

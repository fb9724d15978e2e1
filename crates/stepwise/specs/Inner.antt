-- The rows of a program and the steps over them: tools for the proof of the source run. Nobody need
-- believe them.
pub mod Outcomes
pub mod Rows
pub mod Steps

-- How a walk reports the outcome of an evaluation: a tool for the proof of the source run. Nobody
-- need believe it.
pub mod Outcomes

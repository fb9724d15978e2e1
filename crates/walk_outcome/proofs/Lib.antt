-- The walk of the source run gives the evaluation's outcome.
pub mod Holding
pub mod Walks

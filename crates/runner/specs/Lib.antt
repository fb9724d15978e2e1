-- What a call of the runner gives.
pub mod Inner

-- What the machine's numbers and the lent words stand for, and what a run answers.
pub mod Inner

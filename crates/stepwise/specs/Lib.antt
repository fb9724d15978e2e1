-- The source evaluation step by step: the rows of a program, the steps over them, and that they
-- come to the evaluation's outcome.
pub mod Inner

-- What filling a table with a program's rows answers, and what the functions do that fill it.
pub mod Inner

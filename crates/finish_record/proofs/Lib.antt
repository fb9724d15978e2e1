-- Laws for the functions by which a record's value is handed on.
pub mod Rises

-- What the functions of this crate promise each other. Nobody need believe it.
pub mod Words

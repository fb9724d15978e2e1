-- What the functions over scopes answer.
pub mod Inner

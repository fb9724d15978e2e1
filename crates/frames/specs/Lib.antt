-- The numbers of actions and roles.
pub mod Inner

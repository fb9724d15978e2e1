-- Laws of words read and put, and of the numbers of actions and roles.
pub mod Laws
pub mod Named

-- Laws for the functions of the runner.
pub mod Laws

-- Laws for the functions of the walk.
pub mod Loop

-- Laws that the proofs of the functions that emit code cite.
pub mod Written
pub mod Column
pub mod Entering
pub mod Walk
pub mod Functions
pub mod All
pub mod Loops
pub mod Calls

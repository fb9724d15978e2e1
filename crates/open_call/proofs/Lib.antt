-- Laws for the functions by which a call opens.
pub mod Opens

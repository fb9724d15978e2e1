-- Laws for the functions that say where parts stand.
pub mod Parts
pub mod InNumbers

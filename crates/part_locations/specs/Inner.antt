-- What the functions of this crate promise each other and their callers in Rattle. Nobody need
-- believe it.
pub mod Locations
pub mod InNumbers

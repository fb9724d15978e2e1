-- Laws for the answer of a run that stops.
pub mod Laws
pub mod InNumbers
pub mod NamedStops

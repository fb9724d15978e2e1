-- Laws for what comes before a run.
pub mod Laws

-- Proofs of the statements in specs/.
pub mod Splits
pub mod Entries
pub mod PassOne
pub mod Words
pub mod Typed
pub mod PassTwo
pub mod FirstFault
pub mod Positions
pub mod Untyped
pub mod Overfull
pub mod Printed
pub mod OrderChecker
pub mod Cases
pub mod Figure7

-- The order checker: the typing rules of 000, Figure 6, the two passes of 01, Checking, and the
-- theorems that connect them. A citation "000, .." is of the paper that docs/REFERENCE.md lists
-- under "Papers".
pub mod Types
pub mod Typing
pub mod Leftover
pub mod Scopes
pub mod PassOne
pub mod PassTwo
pub mod FirstFault
pub mod Printed
pub mod OrderChecker
pub mod Inner
pub mod Limits

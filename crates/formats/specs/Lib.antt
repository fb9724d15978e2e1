-- The formats of 01, Tokens and of 01, Program file: numbers, trees, records, programs, refusals. A
-- citation "01, HEADING" names a heading of docs/REFERENCE.md.
pub mod Numbers
pub mod Arithmetic
pub mod Buffers
pub mod Written
pub mod Refusals
pub mod Tokens
pub mod Results
pub mod Records
pub mod Programs
pub mod Rows
pub mod Blocks
pub mod ProgramFiles
pub mod Reader
pub mod Measures
pub mod Characters
pub mod Decimal
pub mod Inner

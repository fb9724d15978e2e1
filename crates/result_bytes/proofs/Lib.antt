-- Laws for the functions that count and write a result's bytes.
pub mod Bytes

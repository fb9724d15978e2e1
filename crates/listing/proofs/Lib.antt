-- The laws of the listing's text, and of the functions that put it.
pub mod Fields
pub mod Lines
pub mod Texts
pub mod Digits
pub mod Signs

-- The laws of the order checker over program files.
pub mod Laws

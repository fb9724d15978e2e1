-- What the functions of the listing program put into its text.
pub mod PrintedText
pub mod Inner

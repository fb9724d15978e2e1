-- The numbers of refusals, and the answers of a check and of a call that fills a lent buffer.
pub mod Inner

-- Where named trees begin.
pub mod Inner

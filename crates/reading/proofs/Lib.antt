pub mod Making
pub mod Range

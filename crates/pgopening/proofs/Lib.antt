mod One
pub mod Plain

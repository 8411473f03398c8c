pub mod Applied
pub mod Serving

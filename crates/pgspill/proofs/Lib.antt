pub mod Parts
pub mod Strands
pub mod Ranges

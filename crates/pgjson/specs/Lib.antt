pub mod Cells
pub mod Lines
pub mod Messages
pub mod Rows

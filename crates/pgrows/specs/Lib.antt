pub mod Gap
pub mod Rows
pub mod Dump
pub mod Stored
pub mod Walk

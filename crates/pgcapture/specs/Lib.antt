pub mod Capture
pub mod Refused

pub mod Headers
pub mod Decoding
pub mod Readings
pub mod Messages
pub mod Holding
pub mod Rows
pub mod Sending
pub mod Runs

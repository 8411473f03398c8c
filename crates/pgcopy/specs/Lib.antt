pub mod Values
pub mod Rows
pub mod Reading
pub mod Read
pub mod Copied
pub mod Held
pub mod Calls
pub mod Sent

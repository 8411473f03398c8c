pub mod Examples
pub mod Dividing
pub mod Bytes
pub mod Bursts
pub mod Remainder
pub mod Joining

pub mod Seen
pub mod Verified

pub mod Content
pub mod Connected
pub mod Refused
pub mod Stopped

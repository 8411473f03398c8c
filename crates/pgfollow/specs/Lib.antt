pub mod Live
pub mod Told

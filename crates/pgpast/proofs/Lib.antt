pub mod Fields
pub mod Flushed
pub mod Chains
pub mod Handings
pub mod Keeping
mod Slots

pub mod Faults
pub mod Stored
pub mod Spans
pub mod AreStored
pub mod Parts
pub mod Kept
pub mod Spooled

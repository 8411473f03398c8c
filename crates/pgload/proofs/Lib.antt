mod Loads
pub mod Batches
pub mod Texts
pub mod Parts
pub mod Frames
pub mod Readers
pub mod Examples
mod InputExamples

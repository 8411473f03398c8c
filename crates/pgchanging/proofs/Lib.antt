pub mod Updating
pub mod Missing
pub mod FoundRows
pub mod ToldImages

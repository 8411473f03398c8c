pub mod Filed
pub mod NewFile
pub mod Recorded
pub mod Fed
pub mod Left

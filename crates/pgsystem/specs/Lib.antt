pub mod NewFile
pub mod Opened
pub mod Spooling

mod Telling
pub mod Calls
mod Recording
mod ToldRows

pub mod Examples
pub mod Calls
pub mod Following
pub mod Folders
pub mod Bodies
mod Parted
mod DraftFiles
pub mod Plain
pub mod Lasting
pub mod Beside
mod Ending
pub mod Naming
mod SameDefinition
pub mod OneReading
pub mod Heard
pub mod Places
pub mod Writing

pub mod Seen
pub mod Hearing
pub mod Watching
pub mod Laws
pub mod Rules
pub mod Live
pub mod Steps
pub mod Guarding

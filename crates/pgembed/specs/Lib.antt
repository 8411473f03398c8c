pub mod Called
pub mod Decoded
pub mod Dumped
pub mod Fed
pub mod InMemory
pub mod Passed
pub mod Shown

pub mod Clean
pub mod Unused
mod Refusing
mod Stopped

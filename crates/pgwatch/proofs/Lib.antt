pub mod Heard
pub mod Judged
pub mod Nests

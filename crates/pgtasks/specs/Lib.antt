pub mod Stores
pub mod Compared

pub mod Crc
pub mod Covering
pub mod Division

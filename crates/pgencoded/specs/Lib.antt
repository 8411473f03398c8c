pub mod Spelled
pub mod Acts
pub mod SqlFault
pub mod EncodedBytes
pub mod DatabaseValue

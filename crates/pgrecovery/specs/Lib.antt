pub mod Recovered
pub mod Life
pub mod FedLife
pub mod Entries
pub mod ToldLife
pub mod LiveLife
pub mod Statement

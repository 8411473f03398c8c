pub mod Records
pub mod Loaded
pub mod Noting
pub mod Handing
pub mod Telling

pub mod Causes
pub mod Laws
pub mod Nested
pub mod Watched

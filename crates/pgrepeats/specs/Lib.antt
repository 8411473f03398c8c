pub mod Digests
pub mod Past
pub mod Rings
pub mod Laws

pub mod Known
pub mod Parks
pub mod Carries
pub mod Rewrites

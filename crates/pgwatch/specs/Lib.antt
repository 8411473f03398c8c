pub mod Hearing
pub mod Known
pub mod Nesting

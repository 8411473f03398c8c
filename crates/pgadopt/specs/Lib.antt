pub mod Adopted
pub mod Outlined

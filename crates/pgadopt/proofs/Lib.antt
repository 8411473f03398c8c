pub mod Adopted
pub mod Remade
pub mod Beginning
pub mod Founding
pub mod RowsRead

mod Counted
mod DefinedRows
mod Given
mod HeldRows
mod Laid
mod Matching
mod OwnKeys
pub mod Sound

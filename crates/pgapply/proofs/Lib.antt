pub mod KeepsForm
pub mod Working
mod Relations
mod EffectRows
mod MissingRows
mod TallyRows
mod WorkRows
mod DumpRows
pub mod Causes
pub mod Entries
pub mod ChangedShapes
mod CarryRows
pub mod AddingUp
pub mod Exceeding

pub mod Loads
pub mod Laws
pub mod Faults
pub mod Loading
pub mod Inputs
pub mod Readers

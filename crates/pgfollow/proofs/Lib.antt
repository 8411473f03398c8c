pub mod Writing
pub mod Telling
pub mod Clocks
pub mod Rising
pub mod Statuses
pub mod Within
mod TakenRows
pub mod Sofar
pub mod Walking

pub mod Writing
pub mod ComparedSides
pub mod BothRead

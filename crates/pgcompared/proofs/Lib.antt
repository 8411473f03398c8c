pub mod Paths
mod Fronts
pub mod Histories
pub mod Points
pub mod Courses
pub mod Spellings
pub mod HeardSessions
pub mod Lives
mod WorkedRows

mod Commits
pub mod Histories
mod Noting
mod Rings

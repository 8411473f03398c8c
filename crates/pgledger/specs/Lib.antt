pub mod Images
pub mod Entries
pub mod Ledgers
pub mod Drafts
pub mod Records

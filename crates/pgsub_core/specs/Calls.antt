pub mod Drafts
pub mod Parting
pub mod Loading
pub mod Committing
pub mod Events
pub mod Framing
pub mod Staging
pub mod Pumping

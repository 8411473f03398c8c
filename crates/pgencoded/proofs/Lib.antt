pub mod SpelledRows
pub mod Acting
pub mod Going
pub mod Formed
pub mod Deciding

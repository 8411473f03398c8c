pub mod NewPage

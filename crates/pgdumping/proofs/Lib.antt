pub mod DumpNested
pub mod DumpShown

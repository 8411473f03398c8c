pub mod DumpRead

mod Unfed
mod Unloaded

mod Clocks
mod Memory
mod Wrapped

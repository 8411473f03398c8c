mod Joined
mod Messages
mod Pieces
mod Stops

mod Answering
mod Building
mod Meeting

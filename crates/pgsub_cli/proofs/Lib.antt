pub mod Came
pub mod FedBytes
pub mod Reading
pub mod ShownLines
pub mod WatchedLines
pub mod PrintedOver
pub mod LeftStores
pub mod Within
pub mod Ended
mod FollowStatuses
pub mod LineSteps
pub mod Parts

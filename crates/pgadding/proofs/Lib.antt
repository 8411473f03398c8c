mod LeftItems
mod LeftWork
mod LeftDescribed
mod Ordered
mod Redefined
mod Defined
mod Places
mod Following
mod RowsCommit
mod Point
mod Passed
mod Histories
mod Whole
mod Steps
mod Kept
mod Later
mod KeptLater
mod Fronts
mod Bytes
mod Copies
mod NewTables
mod Worked
pub mod Delivered
pub mod MendedRows
pub mod MendedTables
pub mod RepairCommit
pub mod RepairHistories
pub mod RepairPassed
pub mod RepairDelivered
pub mod Given
mod WorkedRepair

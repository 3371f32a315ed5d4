pub mod Closed
pub mod Commits
pub mod Passes
pub mod Receipts
pub mod UsedIds
pub mod Views

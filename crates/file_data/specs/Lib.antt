pub mod Staging
pub mod FileRecord
pub mod Troubles
pub mod ExtentLists
pub mod FileInside
pub mod Orders
pub mod Extents

pub mod Needs
pub mod Children
pub mod Cursors
pub mod PagesBelow
pub mod Starts
pub mod Listings
pub mod Followed
pub mod Subtrees

pub mod Requests
pub mod Framings
pub mod Reads
pub mod Fills
pub mod Finds
pub mod Steps
pub mod Lines

pub mod Causes
pub mod Accepts
pub mod Moments
pub mod Memory
pub mod Crowded

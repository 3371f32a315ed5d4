pub mod Calls
pub mod Told
pub mod Followed
pub mod Laws

pub mod Pairing
pub mod Shelving
pub mod Tallying

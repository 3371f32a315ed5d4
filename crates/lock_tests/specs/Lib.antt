pub mod Pairs
pub mod Shelved

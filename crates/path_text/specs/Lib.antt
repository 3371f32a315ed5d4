pub mod Paths
pub mod Names
pub mod Parts
pub mod Queries
pub mod Texts
pub mod Targets
pub mod Tokens
pub mod Faults

pub mod Creates
pub mod Chains

pub mod Piped
pub mod Serves
pub mod Summary

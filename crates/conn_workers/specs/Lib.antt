pub mod Counted
pub mod Desks
pub mod Workers

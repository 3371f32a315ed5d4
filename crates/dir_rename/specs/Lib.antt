pub mod Shifts
pub mod Ends
pub mod Lengths
pub mod Through
pub mod Stages
pub mod Questions

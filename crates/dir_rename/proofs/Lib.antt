pub mod ShiftLemmas
pub mod EndLemmas
pub mod StageLemmas
pub mod LengthLemmas
pub mod ThroughLemmas
pub mod RenameLemmas

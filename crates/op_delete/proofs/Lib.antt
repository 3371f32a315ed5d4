pub mod SubtreeLemmas
pub mod ClearLemmas
pub mod DeleteSteps
pub mod DeleteAnswers

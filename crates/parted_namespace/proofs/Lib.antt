pub mod OpeningLemmas
pub mod OpeningTree
pub mod StepLemmas
pub mod GivenIds
pub mod JournalLemmas

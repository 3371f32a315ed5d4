pub mod ChainLemmas
pub mod CreateLemmas
pub mod MadeLemmas
pub mod PlaceLemmas
pub mod DraftLemmas

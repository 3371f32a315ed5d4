pub mod TallyLemmas
pub mod SumLemmas

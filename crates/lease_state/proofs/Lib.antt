pub mod IdLemmas
pub mod LawLemmas

pub mod AsciiLemmas
pub mod BodyLemmas
pub mod NameLemmas

pub mod Kept
pub mod SlotLemmas
pub mod FieldLemmas
pub mod Spellable

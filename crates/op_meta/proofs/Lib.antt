pub mod StepLemmas
pub mod EditLemmas

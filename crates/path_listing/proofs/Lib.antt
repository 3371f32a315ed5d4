pub mod RowLemmas
pub mod BelowLemmas
pub mod ChildLemmas
pub mod WayFronts
pub mod BodyLemmas
pub mod IdLemmas
pub mod ListSteps
pub mod ListAnswers

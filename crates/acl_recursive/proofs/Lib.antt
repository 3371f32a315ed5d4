pub mod WalkLemmas
pub mod TurnLemmas
pub mod TallyLemmas
pub mod RunLemmas
pub mod BatchAnswers

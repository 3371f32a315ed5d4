pub mod TaskLemmas
pub mod FlushLemmas
pub mod LeaveLemmas

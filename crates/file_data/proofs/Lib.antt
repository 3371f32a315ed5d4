pub mod StagingLemmas
pub mod FileLemmas
pub mod TroubleLemmas
pub mod OrderLemmas
pub mod AppendLemmas
pub mod ExtentLemmas

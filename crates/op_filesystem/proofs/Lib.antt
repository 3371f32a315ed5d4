pub mod FilesystemLemmas
pub mod SuperuserLemmas
pub mod RootLemmas
pub mod RootSteps
pub mod NamedLemmas
pub mod ListedLemmas
pub mod ListingLemmas

pub mod Closes
pub mod Drafts
pub mod Looks
pub mod Rounds
pub mod RoundEnds
pub mod Submits

pub mod ReplyLemmas
pub mod TokenLemmas
pub mod ListingLemmas
pub mod BatchLemmas
pub mod WrittenLemmas
pub mod CallLemmas
pub mod FollowLemmas

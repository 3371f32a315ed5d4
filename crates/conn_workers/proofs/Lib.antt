pub mod DeskLemmas
pub mod WorkLemmas

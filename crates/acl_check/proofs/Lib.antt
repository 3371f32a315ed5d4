pub mod Bits
pub mod Checks
pub mod Inherited
pub mod RightsLemmas

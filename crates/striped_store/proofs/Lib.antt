pub mod Bits
pub mod Counts
pub mod Footprints
pub mod Grown
pub mod Passing
pub mod Using

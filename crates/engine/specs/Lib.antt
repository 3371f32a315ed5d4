pub mod Solos
pub mod Stripes
pub mod Submits

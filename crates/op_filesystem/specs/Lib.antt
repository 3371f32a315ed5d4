pub mod Filesystems
pub mod Roots
pub mod Listed

pub mod Batched

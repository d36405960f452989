-- Merging.
pub mod Merging

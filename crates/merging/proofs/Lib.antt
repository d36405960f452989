-- Laws of merging.
pub mod Merging

-- The laws of words, in the order in which they build on one another.
pub mod Fields
pub mod Laws
pub mod Masks
pub mod Determined

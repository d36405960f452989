-- Sum and difference.
pub mod Sums

-- Laws of sum and difference.
pub mod Combining
pub mod Determined

-- Laws of the whole walk, in the order in which they build on one another.
pub mod Runs
pub mod Looping

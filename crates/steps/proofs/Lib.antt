-- Laws of one step, in the order in which they build on one another.
pub mod Seen
pub mod Rows
pub mod Onward

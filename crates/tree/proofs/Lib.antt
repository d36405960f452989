-- Laws of the tree of rows, in the order in which they build on one another.
pub mod Ways
pub mod Taking
pub mod Planting
pub mod Adding
pub mod Determined

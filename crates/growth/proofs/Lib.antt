-- Laws of a tree that grows.
pub mod Growing

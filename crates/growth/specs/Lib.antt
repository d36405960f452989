-- A tree that grows.
pub mod Growth

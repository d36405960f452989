-- The tree of rows.
pub mod Tree

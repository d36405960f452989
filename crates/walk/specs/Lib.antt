-- The whole walk.
pub mod Running

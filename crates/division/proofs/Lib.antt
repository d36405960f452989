-- Laws of division.
pub mod Walkable
pub mod Determined

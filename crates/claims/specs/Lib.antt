-- What is claimed of the engine as a whole.
pub mod Sheet
pub mod Demands

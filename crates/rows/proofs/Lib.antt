-- Laws of arrays, and of what a call left.
pub mod Said
pub mod Determined

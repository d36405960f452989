-- Laws of the smaller services.
pub mod Parts
pub mod Determined

-- Laws of arrays compared.
pub mod Arrays
pub mod Determined

-- Laws of the greatest monomial of what remains.
pub mod Greatest
pub mod Determined

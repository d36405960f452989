-- The mathematics of the engine, with no word of machines. Read in this order.
pub mod Residues
pub mod Monomials
pub mod Orders
pub mod Polynomials
pub mod Walk

-- What every call on polynomials shares. Read in this order.
pub mod Inputs
pub mod Outcomes
pub mod Endings

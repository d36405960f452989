-- Polynomials in memory. Read in this order.
pub mod Words
pub mod Valid
pub mod Profiles
pub mod Keys

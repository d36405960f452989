-- Which numbers are moduli.
pub mod Moduli

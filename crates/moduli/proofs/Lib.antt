-- Laws of moduli and of numbers modulo them.
pub mod Moduli
pub mod Bounds
pub mod Trial
pub mod Remainders
pub mod Determined

-- Quotients and remainders.
pub mod Quotients
pub mod Planned

-- Faults of terms.
pub mod Faults

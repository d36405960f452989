-- Refusals due.
pub mod Dues

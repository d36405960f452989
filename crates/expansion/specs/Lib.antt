-- Products that burst.
pub mod Bursts
pub mod Found

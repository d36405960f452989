-- What is said of contracts.
pub mod Determined

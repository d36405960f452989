-- Every exported function has one outcome.
pub mod Determined

-- What remains.
pub mod Remaining

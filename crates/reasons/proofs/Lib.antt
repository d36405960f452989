-- Laws of reasons.
pub mod Laws
mod Determined

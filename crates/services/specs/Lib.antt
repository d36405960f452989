-- What the check, the profile and the run of a power of x answer.
pub mod Services
pub mod Searches

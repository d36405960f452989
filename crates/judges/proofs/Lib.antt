-- Laws of the judges.
pub mod Judging
pub mod Determined

-- Laws of refusals due.
pub mod Dues
pub mod Determined

-- The claims shown: first what all calls share, then a file for each call.
pub mod Ring
pub mod Answered
pub mod Check
pub mod Single
pub mod Sums
pub mod Difference
pub mod Product
pub mod Heights
pub mod Walks
pub mod Division
pub mod DivideTest
pub mod Returned
pub mod Sheet

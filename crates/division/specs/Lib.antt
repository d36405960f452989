-- Division with remainder, and the divide test.
pub mod Division

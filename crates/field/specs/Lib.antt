-- What the field operations answer.
pub mod Answers
pub mod Tries

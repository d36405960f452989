-- What a row that is tried has to leave.
pub mod Cases

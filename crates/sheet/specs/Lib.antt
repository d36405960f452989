-- What a case of the sheet has to give.
pub mod Cases

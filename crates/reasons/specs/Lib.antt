-- Why a call gives no result.
pub mod Reasons

-- Laws of reports and rules.
pub mod Reports
pub mod Accepted
pub mod Within
pub mod Determined

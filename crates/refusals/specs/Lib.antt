-- The report, and the refusals 1 to 8. Read in this order.
pub mod Reports
pub mod Rules

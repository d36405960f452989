-- Words of packed exponents. Read in this order.
pub mod Layout
pub mod Answers

-- What stops a walk. Read in this order.
pub mod Judges
pub mod Stops
pub mod Plans

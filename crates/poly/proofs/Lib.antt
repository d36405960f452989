-- Laws of polynomials in memory.
pub mod Readings
pub mod Measures
pub mod Records
pub mod Rooms
pub mod Transport
pub mod Maxima
pub mod Heads
pub mod Determined

-- Laws that every call uses.
pub mod Refusals
pub mod Filling
pub mod Told
pub mod Rooms
pub mod Endings
pub mod Determined

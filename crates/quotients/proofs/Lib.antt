-- Laws of a walk in the rooms of a call.
pub mod WalkedRooms

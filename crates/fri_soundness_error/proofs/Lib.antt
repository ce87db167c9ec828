pub mod Counted
pub mod Rooms

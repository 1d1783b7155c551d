pub mod Strings
pub mod Rooms

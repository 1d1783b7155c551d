pub mod Seats
pub mod Seen
pub mod Events
pub mod Making
pub mod Worked
pub mod Pauses
pub mod Helping

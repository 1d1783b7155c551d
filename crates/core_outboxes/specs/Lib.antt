pub mod Waits
pub mod Owed
pub mod Decided
pub mod Outboxes
pub mod Desk
pub mod Unmade
pub mod Comes
pub mod Fixed

pub mod Kept
pub mod Steps
pub mod Holds
pub mod Comes
pub mod Runs
pub mod State

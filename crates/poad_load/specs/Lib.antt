pub mod Schedule
pub mod Loading
pub mod Counts
pub mod Played
pub mod Writing

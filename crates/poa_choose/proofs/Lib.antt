pub mod Locates
pub mod Runs

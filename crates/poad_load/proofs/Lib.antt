pub mod Counted
pub mod Parts
pub mod Summed
pub mod Configured

pub mod Kept
pub mod Illegal

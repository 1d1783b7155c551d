pub mod Answers
pub mod Arriving
pub mod Fits
pub mod Stored

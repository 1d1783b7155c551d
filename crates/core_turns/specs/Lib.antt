pub mod Needs
pub mod Said
pub mod Looks
pub mod Told
pub mod Answered
pub mod Templates
pub mod Ways
pub mod Busy

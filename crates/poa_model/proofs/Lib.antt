pub mod Agree
pub mod Next
mod Spoiled

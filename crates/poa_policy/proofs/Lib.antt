pub mod Listing
pub mod Completing
pub mod SettledLaws
pub mod Turns
pub mod Each

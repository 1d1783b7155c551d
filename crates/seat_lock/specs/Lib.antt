pub mod Histories
pub mod Views
pub mod Seats
pub mod Rule
pub mod Steps
pub mod Parts

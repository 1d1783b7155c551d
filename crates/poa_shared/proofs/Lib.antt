mod Places
mod Holding
mod Made
mod Printed
mod Taking
pub mod Seeing
pub mod Making
pub mod Steps
pub mod Ending
pub mod Helped

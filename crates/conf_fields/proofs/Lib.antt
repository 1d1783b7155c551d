pub mod Entries
pub mod Keys
pub mod Finds
pub mod Formed

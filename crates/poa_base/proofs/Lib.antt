pub mod Rows
pub mod Shelves
pub mod Stored
pub mod Finding

pub mod Blocks
pub mod Frees
pub mod Numbers
pub mod Rows
pub mod Held

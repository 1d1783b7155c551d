pub mod Limits
pub mod Policies
pub mod Minors
pub mod Rows
pub mod Shelves
pub mod Store
pub mod Templates

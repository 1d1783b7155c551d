pub mod Asking
pub mod Result
pub mod Line
pub mod Calling

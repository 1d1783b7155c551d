pub mod Paths
pub mod ReadBack
pub mod Lines
pub mod Tokens
pub mod Joining
pub mod NamesRead
pub mod Cutting
pub mod Numbers

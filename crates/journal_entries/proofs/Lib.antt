pub mod Chunking
pub mod Rowing

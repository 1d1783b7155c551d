pub mod Chunked
pub mod Rows

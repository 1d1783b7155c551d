pub mod Seen
pub mod Kept
pub mod Answers
pub mod Flying
pub mod Touched
pub mod Serving

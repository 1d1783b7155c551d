pub mod Counting
pub mod Parents
pub mod KeptRows
pub mod Below
pub mod AdaptersKept
pub mod Noting
pub mod Kept

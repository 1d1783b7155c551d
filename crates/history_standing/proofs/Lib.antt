pub mod Members
pub mod Leading
pub mod Finding
pub mod TreeKept
pub mod WalkStands
pub mod InPlace
mod Parents
pub mod Tests
pub mod CallsKept
pub mod Clear
mod Ends

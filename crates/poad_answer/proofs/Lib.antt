pub mod Serves
pub mod Pieces
pub mod Worked
pub mod Running
pub mod Answered
pub mod BuiltIn
mod Noting
pub mod Named
pub mod Longer
pub mod Whole

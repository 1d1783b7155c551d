pub mod HoldRows
mod Rewalked
mod Unchanged
pub mod Landing
mod Busy
pub mod Stays
pub mod Least
pub mod RowsChanged
pub mod Entering

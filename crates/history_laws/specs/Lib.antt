pub mod Undone
pub mod OneLine
pub mod Lasting
pub mod Keyed
pub mod Closing
pub mod Restarts

pub mod KeysRead
pub mod Onward
pub mod Behind
pub mod Kept
pub mod Itself
pub mod Exchange
mod Dropping
pub mod Settled
mod Still
pub mod ChangesAlike
mod Few
mod Forgotten
pub mod Staying
pub mod Overs
pub mod Lasting
mod Served

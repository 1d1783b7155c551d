pub mod Kinds
pub mod Rules
pub mod Settled
pub mod Entries
pub mod Parents
pub mod Adapters
pub mod Objects
pub mod Kept

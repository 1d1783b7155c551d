pub mod Outgoing
pub mod Exception
pub mod Reply

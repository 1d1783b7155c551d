pub mod ById
pub mod Tables
pub mod Live
pub mod Asked
pub mod Endings
pub mod Made
pub mod Noted
pub mod Wholes

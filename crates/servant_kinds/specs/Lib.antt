pub mod Arguments
pub mod Exceptions
pub mod Object
pub mod Register
pub mod Log
pub mod Act

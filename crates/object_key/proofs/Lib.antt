pub mod OneReading
pub mod Keys
pub mod Lent
pub mod Names

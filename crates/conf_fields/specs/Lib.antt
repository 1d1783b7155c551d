pub mod Chain
pub mod FieldGives
pub mod Place
pub mod Words
pub mod Look
pub mod Paths
pub mod Numbers
pub mod Entries

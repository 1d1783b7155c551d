pub mod Named
pub mod Moving
pub mod Written

pub mod Creations
pub mod Servants
pub mod Flags
pub mod Ordinals

pub mod Fixed
pub mod Edges
pub mod Reading
pub mod Connections
pub mod Traffic
pub mod Whole

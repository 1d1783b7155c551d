pub mod Part
pub mod Open
pub mod Rules
pub mod Stream
pub mod Message
pub mod Framing
pub mod Framer
pub mod Frames

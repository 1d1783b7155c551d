pub mod FixedAnswer
pub mod Answer
pub mod Fixed
pub mod Command
pub mod Place
pub mod Reading

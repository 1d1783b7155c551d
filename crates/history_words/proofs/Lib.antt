mod Still
mod Created
mod Asked
pub mod Placed
mod Opened
mod FlagsFrom
pub mod FlagsAre
pub mod GivenAre
pub mod Made
pub mod AnswersAre

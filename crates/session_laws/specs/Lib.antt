pub mod Calls
pub mod Hearing
pub mod Lines
pub mod Records
pub mod Sessions
pub mod Expecting
pub mod HearingPieces

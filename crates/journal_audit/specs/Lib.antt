pub mod Rules
pub mod FirstBad
pub mod Judging
pub mod Auditing
pub mod Matching
pub mod Listening
pub mod Looking
pub mod Texts

pub mod Played
pub mod Commanded
pub mod Statuses
pub mod Telling
pub mod Opening
pub mod Kept
pub mod Counting
pub mod Heard
pub mod Wholly
pub mod Completed
pub mod Sums
pub mod LongerLines
pub mod LongerHearing
pub mod Arriving
pub mod Filling
pub mod Sent
pub mod Linked
pub mod Roomy
mod NamesEnding
mod Reopened

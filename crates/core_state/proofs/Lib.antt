pub mod Writes
pub mod FreshFrom
pub mod QuietHolds
pub mod RunHolds
pub mod BroughtHolds
pub mod StoredHolds
pub mod Following
pub mod RowsCopied
pub mod OpeningHolds
pub mod NamesTold
pub mod NamesThere
pub mod RunsHave
mod OverTests
mod WorkedOn
mod Answering
pub mod Growing
pub mod Stated

pub mod Workers
mod Begun
mod Dying
mod Told
mod HeldRows
mod Idle
mod CommandsGo
pub mod Undone
mod RunRows
pub mod Keyed
mod KindKept
mod Incarnations
mod Line
mod LineRuns
mod LineIncarnated
mod LineEtherealized
pub mod OneServant
pub mod FirstWorker
pub mod Decided
mod Waiting
pub mod Since
pub mod Answered
pub mod RootStays
pub mod Shut
pub mod Collecting
pub mod Entries
pub mod Policies
pub mod Boots
pub mod Objects
pub mod Opened
pub mod Lasting
pub mod ShutDown
pub mod Freed
pub mod Afterwards
pub mod Over
pub mod LateCalls
mod KindStays
mod Untouched
pub mod Going

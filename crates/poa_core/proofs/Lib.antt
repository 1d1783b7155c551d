pub mod NextTurn
mod Filling
mod Taken

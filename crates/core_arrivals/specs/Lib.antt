pub mod Numbers
pub mod Firsts
pub mod Placed
pub mod Queued
pub mod Begun
pub mod Tallies

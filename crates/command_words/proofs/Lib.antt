pub mod Walking
pub mod Standing
pub mod One
pub mod Two
pub mod Found
pub mod Digits
pub mod Noting
pub mod Unargued

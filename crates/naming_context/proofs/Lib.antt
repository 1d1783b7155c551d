pub mod Bindings
pub mod Results
pub mod NameReading
pub mod Arguments
pub mod Writing
pub mod Served

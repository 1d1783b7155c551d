pub mod Porch
pub mod Wires

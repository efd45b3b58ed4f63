pub mod Least
pub mod Layers
pub mod Called

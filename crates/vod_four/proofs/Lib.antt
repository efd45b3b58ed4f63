pub mod Planes
pub mod Moves
pub mod Known

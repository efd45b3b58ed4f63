pub mod Least
pub mod Once

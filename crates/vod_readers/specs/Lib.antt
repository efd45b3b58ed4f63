pub mod Readers
pub mod Collected

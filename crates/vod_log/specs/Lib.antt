pub mod Format
pub mod Tail
pub mod Opened

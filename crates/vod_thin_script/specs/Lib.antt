pub mod Pieces
pub mod Reading
pub mod Script
pub mod Held
pub mod Fault
pub mod History

pub mod Components
pub mod Checks
pub mod Search

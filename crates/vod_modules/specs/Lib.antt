pub mod Names
pub mod Uses
pub mod Faults
pub mod Modules

pub mod Faults
pub mod InMemory
pub mod System
pub mod Told

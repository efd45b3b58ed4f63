pub mod InMemory
pub mod Moments
pub mod Outcomes
pub mod Replay
pub mod Room
pub mod System
pub mod Untold

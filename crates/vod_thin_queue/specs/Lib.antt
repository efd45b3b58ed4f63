pub mod State
pub mod Step
pub mod Run
pub mod Weight
pub mod Core
pub mod Choice
pub mod Flags
pub mod Index

pub mod Range
pub mod Replay

pub mod Moments
pub mod Request
pub mod Progress

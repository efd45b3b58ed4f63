pub mod Readings
pub mod Appends
pub mod Crashes
pub mod Bounds
pub mod Opening
pub mod Creates
pub mod Frames
pub mod Placed

pub mod Elapses
pub mod Files
pub mod Events
pub mod Disks
pub mod Calls
pub mod Replays
pub mod Leaves

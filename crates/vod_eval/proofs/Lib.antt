pub mod Cuts
pub mod Depth
pub mod Layers
pub mod Kept
pub mod Callable
pub mod Enter
pub mod RoomTable
mod Gates
mod Commons
pub mod ReadLists
mod Bodies

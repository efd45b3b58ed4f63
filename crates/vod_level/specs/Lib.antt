pub mod Bits
pub mod Order
pub mod Cycle
pub mod Peel
pub mod Steps
pub mod Lists

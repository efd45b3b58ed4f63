pub mod Names
pub mod Tables
pub mod Sizes
pub mod View
pub mod Calls
pub mod Refusals
pub mod Lefts
pub mod SeesLeft

pub mod Command
pub mod Sources
pub mod Phases
pub mod Ends
pub mod Answer
pub mod Quiet
pub mod Caused

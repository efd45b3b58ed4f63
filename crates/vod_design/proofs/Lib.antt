pub mod Hangs
pub mod Forgets
pub mod Lawful
pub mod ForgetsRun
pub mod Images

pub mod Lists
pub mod Feeds
pub mod Tables
pub mod Cuts
pub mod Steps

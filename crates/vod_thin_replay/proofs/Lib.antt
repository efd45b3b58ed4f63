pub mod Opened
pub mod Payloads
pub mod Batches
pub mod Damages

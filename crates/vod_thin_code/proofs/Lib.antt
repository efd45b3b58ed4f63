mod Numbers
mod Frames
pub mod Batches
mod Logs
mod Payloads
mod Assignments
mod Vectors

pub mod Four
pub mod Fields
pub mod Lengths

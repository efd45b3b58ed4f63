pub mod Facts
pub mod Settled

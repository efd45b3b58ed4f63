pub mod Exprs
pub mod Accepted
pub mod Target

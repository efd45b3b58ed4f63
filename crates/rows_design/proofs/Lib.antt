pub mod Exprs
pub mod Accepted

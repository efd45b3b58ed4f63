pub mod Bits
pub mod Expr
pub mod Netlist
pub mod Vectors
pub mod Names

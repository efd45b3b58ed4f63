pub mod Reducing
pub mod Numerals

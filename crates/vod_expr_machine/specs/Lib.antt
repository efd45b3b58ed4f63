pub mod Lexeme
pub mod Operators
pub mod Machine
pub mod Numerals
pub mod View

pub mod Bit
pub mod Value
pub mod Word
pub mod Fields
pub mod Lengths

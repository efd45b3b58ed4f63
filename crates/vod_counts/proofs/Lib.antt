pub mod Sums
pub mod Inside
pub mod Past

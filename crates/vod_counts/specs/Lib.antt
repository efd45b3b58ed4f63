pub mod Edges
pub mod Counts
pub mod Limits
pub mod Totals

pub mod Constants
pub mod Found

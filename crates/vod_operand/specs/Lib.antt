pub mod Operands
pub mod Operators
pub mod Fits
pub mod Found
pub mod FaultLaws
pub mod FoundLaws
pub mod RefitLaws

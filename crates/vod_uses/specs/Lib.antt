pub mod Calls
pub mod Registers
pub mod Visible
pub mod Uses
pub mod Statements
pub mod Items

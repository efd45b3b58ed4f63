pub mod FanOut
pub mod Table

pub mod Operators
pub mod Grammar
pub mod NumberLaws
pub mod Answer
pub mod Reading

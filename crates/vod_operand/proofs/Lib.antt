pub mod Trees
pub mod Numbers

pub mod Places
pub mod Numbers
pub mod Folds
pub mod Signs
pub mod Views

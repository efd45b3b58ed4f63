pub mod Listed
pub mod Pieces
pub mod Room
pub mod Scenes
pub mod Sizes
pub mod CaseLaws

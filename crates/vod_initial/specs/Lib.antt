pub mod Initial
pub mod InitialForm
pub mod InitialLaws
pub mod InitialPhrases
pub mod InitialFormLaws
pub mod Depth
pub mod DepthLaws
pub mod BelowLaws

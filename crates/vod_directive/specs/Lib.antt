pub mod Meaning
pub mod DirectiveForm
pub mod MeaningLaws
pub mod DirectiveLaws

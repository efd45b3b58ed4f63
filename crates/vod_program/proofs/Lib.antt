pub mod PhaseLaws
pub mod SourceLaws
pub mod CommandLaws
pub mod AnswerLaws
pub mod RecordLaws
pub mod WindowLaws
pub mod CausedLaws

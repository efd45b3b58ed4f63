pub mod StepsLaws
pub mod WindowLaws
pub mod RequestLaws
pub mod FrontLaws

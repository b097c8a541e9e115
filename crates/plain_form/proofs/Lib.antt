pub mod FewLaws
pub mod InPlace
pub mod LoopLemmas
pub mod MadeLaws
pub mod MarkLaws
pub mod ProgramLaws
pub mod SectionLaws
pub mod StayingLaws

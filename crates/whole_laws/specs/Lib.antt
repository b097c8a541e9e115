pub mod WholeKindsLaws
pub mod Rewritten
pub mod WholeLaws
pub mod Notes
pub mod WholeCommentsLaws
pub mod Names
pub mod PlainResolvedLaws
pub mod Guards

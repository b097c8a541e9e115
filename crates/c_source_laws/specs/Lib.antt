pub mod Classed
pub mod Directives
pub mod Formed
pub mod DerivedLaws
pub mod LimitLaws
pub mod SourceLaws

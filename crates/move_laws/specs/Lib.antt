pub mod Bodies
pub mod MoveRuleLaws
pub mod Simplifications
pub mod GuardSimplifyLaws
pub mod Drops
pub mod GuardDropLaws

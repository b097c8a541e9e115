pub mod Expressions
pub mod LoweredBehavesLaws
pub mod Modest
pub mod LoweredResolvedLaws
pub mod LoweredRereadLaws

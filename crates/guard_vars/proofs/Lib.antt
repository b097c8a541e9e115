pub mod ConversionLemmas
pub mod GotoFree
pub mod GuardNames
pub mod LoopLemmas

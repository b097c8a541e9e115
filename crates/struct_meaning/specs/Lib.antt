pub mod Structured
pub mod Structural
pub mod Runs

pub mod Steps
pub mod EndLaws
pub mod Flags
pub mod LastBreaks

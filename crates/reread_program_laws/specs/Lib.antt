pub mod Notes
pub mod Limits
pub mod RereadProgramLaws
pub mod RereadTextLaws

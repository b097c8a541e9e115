pub mod Entries
pub mod Resumes

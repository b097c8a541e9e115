pub mod FilesLemmas
pub mod WrittenLemmas
pub mod Progress

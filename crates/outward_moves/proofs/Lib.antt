pub mod SectionLemmas
pub mod OutLemmas

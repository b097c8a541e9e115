pub mod CutLemmas
pub mod PutLemmas

pub mod RunLemmas
pub mod FormLemmas
pub mod ReadLemmas
pub mod StoredLemmas
pub mod AheadLemmas
pub mod PassLemmas

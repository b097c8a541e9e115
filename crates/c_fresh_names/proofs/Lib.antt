pub mod FreshFound
pub mod FreshLemmas
pub mod NameSets
pub mod RunLemmas

pub mod SpotLemmas
pub mod CaseLemmas
pub mod FreeNumbers
pub mod WayLemmas

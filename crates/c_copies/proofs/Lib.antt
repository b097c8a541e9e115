pub mod NameLemmas
pub mod Places
pub mod Rising
pub mod SetLemmas

pub mod Forms
pub mod FreshNames
pub mod OwnNames
pub mod NamedOwn
pub mod Exchanged

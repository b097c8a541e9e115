pub mod Arguments
pub mod ConstantForms
pub mod Lookups
pub mod ScopeLaws
pub mod Walks
pub mod Entries

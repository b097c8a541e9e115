pub mod Counts
pub mod Added
pub mod Laws
pub mod Numbers

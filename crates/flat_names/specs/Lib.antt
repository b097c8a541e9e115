pub mod FlatNames
pub mod Gathered
pub mod Numbers

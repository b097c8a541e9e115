pub mod Conversion
pub mod GuardNames

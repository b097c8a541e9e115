pub mod Readings
pub mod Resolved

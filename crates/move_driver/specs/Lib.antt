pub mod Counts
pub mod Flattened
pub mod Restructured
pub mod Kept
pub mod Text
pub mod Settled

pub mod Wraps
pub mod Places
pub mod Nests
pub mod Pairs
pub mod Chosen
pub mod GuardGone

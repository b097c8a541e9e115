pub mod Guards
pub mod Programs
pub mod Kept
pub mod Settled

pub mod Places
pub mod Codes
pub mod Cleared
pub mod Flattened
pub mod Given

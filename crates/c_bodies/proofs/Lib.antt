pub mod Constructs
pub mod Endings
pub mod FirstTokens
pub mod Insides
pub mod Scopes
pub mod SwitchSteps
pub mod Walks

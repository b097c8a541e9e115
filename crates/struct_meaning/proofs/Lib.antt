pub mod PlainBodies
pub mod Ran
pub mod Expressions
pub mod Unfound
pub mod Statements
pub mod Fuel
pub mod Agreement
pub mod Programs
mod Computed

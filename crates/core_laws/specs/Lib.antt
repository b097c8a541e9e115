pub mod Ways
pub mod Core
pub mod Better
pub mod Laws

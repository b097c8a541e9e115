pub mod LoweredTried
pub mod Controls
pub mod Located
pub mod Runs
pub mod Kept
pub mod Loosened
pub mod Flattened
pub mod Standing
pub mod Sources
pub mod Straightened
pub mod Counts
pub mod Once
pub mod Flat
pub mod LoweredPrograms
pub mod Instance
mod LoweredFormsTried

pub mod Tasks
pub mod Effects
pub mod Labels
pub mod Controls
pub mod Indexes

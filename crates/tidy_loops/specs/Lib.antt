pub mod Views
pub mod Exits
pub mod ExitLaws
pub mod Fits
pub mod Slots
pub mod Remaining
pub mod Rewritten
pub mod LoopLaws

mod Tried
pub mod Steps
pub mod UsedBelow

pub mod Bytes
pub mod Starts
pub mod Once
pub mod Within
pub mod Outcomes
pub mod Leaping
pub mod MovesMade
pub mod Placing

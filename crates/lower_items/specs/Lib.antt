pub mod Plans
pub mod Jumps
pub mod Loops
pub mod Choices
pub mod Forms
pub mod Pieces

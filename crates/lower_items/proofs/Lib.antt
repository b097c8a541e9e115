pub mod Steps
pub mod Shapes
pub mod Jumping
pub mod Moving
pub mod Hanging
pub mod Arms

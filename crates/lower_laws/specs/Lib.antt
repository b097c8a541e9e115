pub mod Straight
pub mod Rewritten
pub mod Lowered
pub mod Opened
pub mod Source
pub mod Functions
pub mod Laws
pub mod Lowering

pub mod Places
pub mod Plans
pub mod Pieces
pub mod Forms

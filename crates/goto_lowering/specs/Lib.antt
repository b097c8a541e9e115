pub mod Renumbered
pub mod Codes
pub mod Steps
pub mod Tops

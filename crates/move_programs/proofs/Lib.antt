pub mod Tops
pub mod Converted

pub mod NumberLaws
pub mod Layouts
pub mod Steps
pub mod Tops

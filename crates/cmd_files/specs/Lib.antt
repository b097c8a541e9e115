pub mod Taken
pub mod Translated
pub mod Written
pub mod Shown

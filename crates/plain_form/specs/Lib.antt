pub mod Few
pub mod Made
pub mod Marks
pub mod Plain
pub mod Staying

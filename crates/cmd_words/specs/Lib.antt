pub mod Command
pub mod Status
pub mod Lines
pub mod Help
pub mod Numbers
pub mod Demo

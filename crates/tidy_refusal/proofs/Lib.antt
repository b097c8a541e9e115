pub mod Nodes
pub mod Still
pub mod Sections
pub mod Statements
pub mod Files
pub mod Jumpless

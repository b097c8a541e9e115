pub mod Machine
pub mod Nodes
pub mod Shown
pub mod Starts
pub mod Steps
pub mod Tests

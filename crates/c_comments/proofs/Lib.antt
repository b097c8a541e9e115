pub mod Nodes
pub mod Written
pub mod NoteLists
pub mod StepPlaces
pub mod Entered
mod Examples

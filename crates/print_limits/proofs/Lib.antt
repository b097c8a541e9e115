pub mod Layers
pub mod Measures
